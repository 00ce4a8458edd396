pub mod Views
pub mod CallTrees
