pub mod Cuboids
mod Faults
mod Folding
mod Members
pub mod ModesPlanned
mod ModeBatchesLemmas
mod SteppingLemmas
mod Views
