pub mod ListingLemmas
pub mod Taken
