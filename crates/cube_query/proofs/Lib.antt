pub mod CallerLemmas
pub mod Choosing
pub mod RunningLemmas
pub mod Known
mod CellMerges
mod CellSlotsLemmas
mod CellParts
mod CellRunsLemmas
mod WholeBatchLemmas
mod CellGroups
mod RowSlots
mod Wanted
mod WholeBatches
