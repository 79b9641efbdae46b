pub mod Putting
pub mod Rewriting
