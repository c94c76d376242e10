pub mod MergeLawsLemmas
pub mod CallerLemmas
mod Cuts
mod Cutting
mod FieldsLemmas
pub mod HeadTexts
pub mod ReadingLemmas
pub mod AnswerMerges
mod NumberTexts
mod NumbersLeft
mod HeadReadingLemmas
pub mod ReadableLemmas
pub mod TextsLemmas
pub mod ReadBack
pub mod Rising
pub mod MergingLemmas
mod TheOne
mod FinishingLemmas
mod WordLines
mod WordTexts
