pub mod Requirement
pub mod Selecting
pub mod Document
pub mod DocumentCode
pub mod Form
