pub mod Answered
pub mod Celling
pub mod Divided
pub mod Joining
pub mod Parts
pub mod States
