pub mod Whole
pub mod Upkeep
pub mod Cause
pub mod Places
