pub mod Apart
pub mod Cutting
pub mod WordsLemmas
pub mod Ends
mod NearnessLemmas
pub mod Limited
pub mod Listed
mod NamedViews
pub mod Once
pub mod Placed
pub mod Refusals
pub mod Shapes
pub mod Signs
