pub mod Steps
pub mod Closings
pub mod Sums
