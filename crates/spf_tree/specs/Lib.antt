pub mod Queues
pub mod Steps
pub mod Trees
