pub mod Dictionary
pub mod Spelling
pub mod Columns
pub mod Reading
