pub mod After
pub mod Calls
pub mod ImageDisk
pub mod JournalDisk
pub mod Latest
pub mod Lawful
