pub mod Cells
pub mod Lawful
pub mod Limits
pub mod Merges
pub mod Pieces
pub mod Reading
pub mod Spelled
pub mod Steps
