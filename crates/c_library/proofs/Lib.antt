pub mod Ends
pub mod Files
pub mod Found
pub mod LoadingLemmas
pub mod AnsweringLemmas
pub mod ReportsLemmas
