pub mod Choice
pub mod Costs
pub mod Cuboids
pub mod Example
pub mod Lawful
