pub mod Determined
pub mod Laws
pub mod Levels
pub mod Names
pub mod Needed
pub mod Sizes
pub mod Views
