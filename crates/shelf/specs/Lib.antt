pub mod Prefix
pub mod Faults
pub mod Shelf
pub mod Places
