pub mod Counting
pub mod Codes
pub mod Copies
pub mod Lists
pub mod Progress
