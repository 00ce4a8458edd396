pub mod Limits
pub mod Faults
pub mod Reading
pub mod Grammar
pub mod Ends
