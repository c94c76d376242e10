pub mod Cells
pub mod Lawful
pub mod Members
pub mod Parts
pub mod Places
pub mod Spellable
pub mod Tallies
pub mod Texts
