pub mod Timers
pub mod Resending
