pub mod Ascending
pub mod CallerLemmas
mod FieldLemmas
pub mod Stopped
mod WholeLemmas
