pub mod Beginnings
pub mod Rows
