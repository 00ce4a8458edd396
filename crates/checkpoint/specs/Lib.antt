pub mod Pages
pub mod Reader
pub mod Index
pub mod Filling
pub mod EntryList
pub mod Writing
pub mod PageWriter
pub mod WriteFault
