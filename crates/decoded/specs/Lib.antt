pub mod Decoded
pub mod Standing
pub mod Shown
pub mod Upgraded
pub mod Laws
