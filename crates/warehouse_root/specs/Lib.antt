pub mod Lawful
pub mod Layouts
pub mod Limits
pub mod Modes
pub mod Objects
pub mod Reading
pub mod Root
