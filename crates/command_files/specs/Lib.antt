pub mod Batches
pub mod Status
