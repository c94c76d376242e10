pub mod Added
mod Additions
pub mod CallerLemmas
mod CopiedCuboidsLemmas
mod CopiedTablesLemmas
mod CopiedParts
mod CopyLawsLemmas
mod CopyingLemmas
mod CopyCauses
mod Cuboids
pub mod LoadingLemmas
mod DumpingLemmas
mod ExplainingLemmas
mod MigratingLemmas
pub mod PartialLemmas
pub mod PerformingLemmas
mod PlanLinesLemmas
pub mod Reports
pub mod ShipModes
pub mod Turns
mod Written
