pub mod Benchmark
pub mod Filters
pub mod Parted
pub mod Report
pub mod Writing
