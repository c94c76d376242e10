pub mod CallerLemmas
pub mod ModesLaws
mod LawsLemmas
mod ReadingLemmas
mod Fields
mod ModesLemmas
mod RootLemmas
mod ObjectsLemmas
