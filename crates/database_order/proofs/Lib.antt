pub mod Steps
pub mod Serials
pub mod Bests
pub mod Runs
pub mod Ends
pub mod Replays
pub mod Shown
