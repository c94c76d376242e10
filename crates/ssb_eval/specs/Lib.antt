pub mod BatchLoop
pub mod Evaluation
pub mod Partial
pub mod ShipModes
pub mod Tables
