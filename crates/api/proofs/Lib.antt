pub mod Codes
pub mod Folds
pub mod Groups
pub mod Streams
pub mod Tellings
pub mod Runs
pub mod Causes
