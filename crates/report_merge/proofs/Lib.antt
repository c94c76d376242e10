mod NumbersLemmas
mod Counted
mod MergeLemmas
mod Gaps
mod Given
mod Grown
mod Refusing
mod ReadersLemmas
pub mod FinishingLemmas
mod OrderingLemmas
mod WordsLemmas
mod LawsLemmas
