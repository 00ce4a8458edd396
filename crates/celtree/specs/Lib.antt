pub mod Tree
pub mod View
pub mod Size
pub mod Nesting
pub mod Digits
pub mod Calls
pub mod Variables
