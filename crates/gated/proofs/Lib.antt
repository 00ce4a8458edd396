pub mod Verbs
pub mod FileInWords
pub mod Tellings
pub mod Showing
pub mod Served
pub mod Leaving
pub mod Watching
