pub mod History
pub mod View
pub mod Events
pub mod Mapped
pub mod Wider
