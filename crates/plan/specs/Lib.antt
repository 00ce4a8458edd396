pub mod Names
pub mod Tables
pub mod Compilation
pub mod Seen
pub mod Correct
pub mod Values
