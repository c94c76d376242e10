pub mod LawsLemmas
mod ReopeningLemmas
pub mod Refusing
pub mod Preparing
pub mod EarlyCauses
pub mod GrowingLemmas
pub mod Represented
pub mod OnlyReading
pub mod SessionLemmas
pub mod CreationLemmas
pub mod OpeningLemmas
mod Caught
pub mod Cuboids
pub mod Asking
mod Compared
mod Choices
pub mod Numbering
pub mod RunningLemmas
pub mod Whole
