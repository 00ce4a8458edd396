pub mod Lengths
pub mod Ways
pub mod Early
pub mod Runs
pub mod Members
pub mod Stacks
