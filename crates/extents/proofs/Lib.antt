mod FreeLemmas
mod Gap
mod Sectors
mod GapsLemmas
