pub mod Seen
pub mod Worlds
pub mod Running
pub mod Deciding
pub mod Results
pub mod Documents
pub mod StackSeen
