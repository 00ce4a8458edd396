pub mod Pages
pub mod Gathering
pub mod Entries
pub mod Parts
pub mod Records
pub mod Plans
pub mod Place
