pub mod Courses
pub mod Going
pub mod Arrival
