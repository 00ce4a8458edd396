pub mod Kinds
pub mod Compilable
pub mod FirstFault
