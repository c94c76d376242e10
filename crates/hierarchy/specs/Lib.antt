pub mod Hierarchy
