pub mod Moments
pub mod Runs
pub mod Steps
pub mod Picking
pub mod MemorySteps
pub mod SectorSteps
