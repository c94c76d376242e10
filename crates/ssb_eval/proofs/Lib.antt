pub mod Admitting
pub mod Batches
pub mod Endings
pub mod Modes
pub mod PartialLemmas
pub mod FactsLemmas
pub mod LawsLemmas
pub mod KeptLines
