pub mod Root
pub mod Front
pub mod NewStore
pub mod Install
