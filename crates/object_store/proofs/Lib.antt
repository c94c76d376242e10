mod Catalogues
mod CatalogueLemmas
pub mod Lists
pub mod Extents
pub mod ExtentLemmas
pub mod Frame
pub mod Frames
pub mod Moments
pub mod SourceLemmas
pub mod After
pub mod PublishLemmas
pub mod Fits
pub mod EntriesLemmas
pub mod StagedLemmas
pub mod Pieces
pub mod DeviceCalls
pub mod Looking
pub mod Committing
pub mod CallerLemmas
pub mod Contents
pub mod CreateLemmas
