pub mod Kept
pub mod Numbered
