pub mod Pasts
pub mod Changing
