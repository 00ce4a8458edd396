pub mod Parts
pub mod Pieces
pub mod Gathering
pub mod Logs
pub mod Appending
pub mod Walking
pub mod Checking
pub mod Exits
