pub mod Cuts
mod KeyParts
pub mod Going
pub mod Found
pub mod Joined
pub mod Ascending
pub mod Fitting
pub mod Prefixes
pub mod Wholes
