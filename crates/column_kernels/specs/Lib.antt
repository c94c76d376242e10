pub mod Checks
pub mod Extremes
pub mod Masks
pub mod Sums
