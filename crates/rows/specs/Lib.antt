pub mod Rows
pub mod Pushing
