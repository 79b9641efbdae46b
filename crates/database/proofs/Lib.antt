pub mod Kept
pub mod Aged
pub mod Filled
pub mod Heard
pub mod Asked
pub mod Coming
pub mod Settled
