pub mod Extents
pub mod Join
pub mod Runs
