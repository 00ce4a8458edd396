pub mod Holdings
pub mod Sources
pub mod Ranges
pub mod Writes
pub mod Prepared
pub mod Known
