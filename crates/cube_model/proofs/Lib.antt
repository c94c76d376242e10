pub mod LawsLemmas
pub mod Ascending
pub mod Entries
pub mod KeyOrder
