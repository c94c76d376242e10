pub mod Front
pub mod ReadingLemmas
pub mod DecodingLemmas
pub mod Refused
pub mod SpelledLaws
pub mod Steps
