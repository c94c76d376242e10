pub mod Accepted
pub mod Found
pub mod ShipModes
pub mod Totals
