pub mod Loop
pub mod Segments
