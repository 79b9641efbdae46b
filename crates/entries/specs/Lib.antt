pub mod Entries
pub mod Freshness
pub mod Verdicts
