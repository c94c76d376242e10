pub mod Spelling
pub mod Reading
pub mod Writing
pub mod Parts
pub mod Slices
pub mod Runs
pub mod Limits
