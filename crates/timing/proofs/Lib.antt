pub mod Entries
pub mod Leasts
