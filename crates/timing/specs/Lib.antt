pub mod Limits
pub mod Speeds
pub mod Ranges
pub mod Sending
pub mod Table
pub mod Delays
pub mod Tallies
pub mod Periods
