pub mod LawsLemmas
pub mod Places
pub mod ViewLemmas
pub mod Needing
