pub mod Each
pub mod Edits
pub mod Found
pub mod Ranges
pub mod Changing
mod Walking
pub mod Taking
pub mod Covering
mod Leaving
mod Listed
