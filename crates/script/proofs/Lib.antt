pub mod Cutting
pub mod Fixing
pub mod Capped
pub mod Pairs
