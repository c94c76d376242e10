pub mod AcceptedLaws
pub mod CallerLemmas
pub mod FoundLaws
pub mod ShipModesLemmas
