pub mod Figures
pub mod Held
pub mod Counts
