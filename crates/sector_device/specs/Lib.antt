pub mod Device
pub mod FailurePlan
pub mod Fuse
pub mod MemDisk
pub mod Memory
pub mod EventRuns
pub mod History
pub mod Picks
