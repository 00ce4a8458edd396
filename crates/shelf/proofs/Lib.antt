mod Order
mod Prefixes
mod Finding
mod Ranging
mod Places
mod Cached
mod Holding
mod Telling
pub mod Staying
