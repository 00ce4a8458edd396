pub mod Types
pub mod Tables
pub mod Typing
pub mod Computed
pub mod Seen
