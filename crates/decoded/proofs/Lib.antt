pub mod Following
pub mod Staying
mod Wider
pub mod Upgrading
pub mod Changed
pub mod Over
