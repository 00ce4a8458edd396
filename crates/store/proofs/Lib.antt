pub mod Whole
pub mod Keeping
pub mod Upgrading
