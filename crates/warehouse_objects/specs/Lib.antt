pub mod Counted
pub mod Warehouse
pub mod Migration
pub mod Facts
pub mod Represents
pub mod Reads
pub mod Lawful
pub mod Loaded
