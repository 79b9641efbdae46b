pub mod Sayable
pub mod Found
