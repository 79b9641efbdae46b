pub mod Refusals
pub mod Slots
pub mod Lines
pub mod Thresholds
