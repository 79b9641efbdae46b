pub mod Agreement
pub mod Scenes
pub mod Four
pub mod Table
