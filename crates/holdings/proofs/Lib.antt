pub mod Showing
mod Telling
mod Redoing
mod Ranging
mod Among
