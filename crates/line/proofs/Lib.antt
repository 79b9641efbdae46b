pub mod Lasts
pub mod Masks
pub mod Phases
pub mod Passing
pub mod Stories
