pub mod Added
pub mod Among
pub mod Comparing
pub mod Gathered
pub mod Lawful
pub mod Passing
pub mod Stored
pub mod TextColumns
