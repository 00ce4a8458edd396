pub mod Format
pub mod Key
pub mod KeyLaws
pub mod KeyParts
pub mod Name
pub mod Resource
