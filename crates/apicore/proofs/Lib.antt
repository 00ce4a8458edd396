mod Among
pub mod Looking
mod Finding
mod ByName
mod Showing
mod First
mod Found
mod Read
mod Own
mod NoBindings
mod Conditions
mod Places
pub mod Faults
pub mod Admitting
pub mod Following
pub mod Deciding
