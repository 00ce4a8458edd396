pub mod Judging
pub mod Compiling
pub mod Faults
pub mod Progress
pub mod Counting
pub mod Standing
mod Staying
pub mod Placing
pub mod Weights
pub mod Shortness
pub mod Bytes
pub mod Holding
pub mod StoredLists
mod OtherPlans
pub mod Bindings
