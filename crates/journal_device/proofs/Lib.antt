pub mod ImageDiskLemmas
pub mod LawsLemmas
pub mod DiskLemmas
