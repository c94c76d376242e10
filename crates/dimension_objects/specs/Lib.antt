pub mod Columns
pub mod Spelled
