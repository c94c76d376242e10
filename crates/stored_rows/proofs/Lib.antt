pub mod Answers
pub mod CallerLemmas
pub mod Cells
pub mod Codes
mod Firsts
mod OwnModesLemmas
pub mod Known
mod MoreReads
mod OneBatchMore
mod PassedTexts
mod Puts
mod Rows
mod AmongLemmas
mod TextColumns
mod TextPartLemmas
mod Widened
