pub mod LawsLemmas
pub mod Counting
pub mod ListingLemmas
pub mod DimensionLemmas
pub mod Ranks
pub mod Written
