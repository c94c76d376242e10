mod Bits
mod Blocks
pub mod CallerLemmas
mod Chunks
mod LanesLemmas
mod ExtremesLemmas
mod BlockLemmas
mod Selecting
