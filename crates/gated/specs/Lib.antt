pub mod Status
pub mod Problem
pub mod CommandLine
pub mod Opening
pub mod Doing
pub mod Left
pub mod Telling
pub mod Progress
