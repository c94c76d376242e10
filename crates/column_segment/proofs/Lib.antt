pub mod CallerLemmas
mod After
mod Gathered
mod Chunked
mod Coded
mod CodingLemmas
mod ColumnsLemmas
mod ExtremesLemmas
mod ProjectingLemmas
mod ReadingLemmas
mod Parts
mod Passes
mod Shared
mod BatchLemmas
mod Totals
mod Values
mod Whole
