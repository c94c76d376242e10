pub mod CallerLemmas
mod Groupings
pub mod Join
mod RowKeys
mod Tests
pub mod Without
