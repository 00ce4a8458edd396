pub mod DataCode
pub mod Json
pub mod Escapes
pub mod Texts
