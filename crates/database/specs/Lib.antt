pub mod States
pub mod Taking
pub mod Originating
