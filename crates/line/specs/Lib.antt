pub mod Messages
pub mod Windows
pub mod Moves
pub mod Making
pub mod Courses
