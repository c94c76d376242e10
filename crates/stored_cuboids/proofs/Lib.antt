pub mod Auditing
mod BatchesLemmas
mod BringingLemmas
pub mod CallerLemmas
pub mod CountedRuns
mod LaterReads
mod Made
pub mod Merging
mod Places
mod Replaced
pub mod Represented
pub mod AuditLemmas
mod Spans
mod StoreCalls
mod KeepingLemmas
pub mod StoredRuns
mod NextsLemmas
mod ReadingLemmas
mod Turns
mod UpkeepLemmas
