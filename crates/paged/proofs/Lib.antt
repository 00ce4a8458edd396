pub mod Staying
pub mod Stepping
pub mod Lying
pub mod Choosing
pub mod Pages
mod Going
pub mod Owning
mod Showing
mod Upgrading
