pub mod Lists
pub mod Numerals
pub mod Inside
pub mod Places
pub mod Kept
pub mod Checked
