pub mod ViewLemmas
pub mod Mapping
pub mod Wider
