pub mod Listed
pub mod Plans
