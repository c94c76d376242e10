pub mod CallerLemmas
mod Climbing
pub mod Continuing
mod Decoded
mod Fields
mod PiecesLemmas
mod MergingLemmas
mod After
