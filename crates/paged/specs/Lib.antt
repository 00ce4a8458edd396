pub mod Lying
pub mod Paged
pub mod Faults
pub mod Chosen
pub mod Upgrading
