pub mod Asked
pub mod CellRuns
pub mod CellSlots
pub mod CellTallies
pub mod Chosen
pub mod ColumnRows
pub mod Groups
pub mod WholeBatch
