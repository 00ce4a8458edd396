pub mod Formats
pub mod KeyBytes
pub mod KeyOrder
pub mod NameBytes
pub mod NameGrammar
