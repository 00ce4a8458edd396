pub mod Answers
pub mod Serving
pub mod Piece
pub mod Laws
pub mod Fault
