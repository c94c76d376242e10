pub mod Choice
pub mod Superblock
