pub mod Priced
pub mod Floors
pub mod WorstFirst
