mod Merged
mod Found
mod GroupingLemmas
mod Sorted
mod Added
mod OneList
mod Coded
mod InRange
pub mod LawsLemmas
pub mod Represented
mod MemberKeysLemmas
mod CodesLemmas
mod Modes
mod Existing
mod Ascending
mod Members
mod OwnModes
mod TableLemmas
mod Rows
mod Slots
mod Tables
mod Unwanted
pub mod CallerLemmas
