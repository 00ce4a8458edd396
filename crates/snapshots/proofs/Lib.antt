pub mod Sorted
pub mod LyingBelow
pub mod InBytes
pub mod Held
mod Taking
pub mod Showing
pub mod Histories
pub mod Parts
mod MadeAgain
mod Chosen
pub mod Alone
mod LyingApart
pub mod Events
pub mod Spelling
pub mod Kept
mod Prefixes
pub mod BaseFaults
pub mod Holding
pub mod Views
pub mod Chunked
pub mod Sieving
mod Objects
mod Unchanged
mod Lookups
pub mod Lying
mod NamesInUse
pub mod Behind
pub mod Upgrading
pub mod HandedOn
