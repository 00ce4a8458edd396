pub mod Literals
pub mod Revisions
pub mod Sheets
pub mod Fronts
