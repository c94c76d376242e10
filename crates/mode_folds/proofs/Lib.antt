mod Adding
mod CellPartsLemmas
mod OneCellMore
mod Chosen
pub mod Counted
mod Divides
mod Finish
mod Foldables
mod JoiningLemmas
mod Takes
mod Whole
