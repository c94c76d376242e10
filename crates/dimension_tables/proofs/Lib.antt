pub mod CallerLemmas
pub mod ReadingLemmas
