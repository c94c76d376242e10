pub mod CallerLemmas
mod Places
