pub mod Words
pub mod Stepping
pub mod Numbers
pub mod Hexadecimal
