pub mod PricedLaws
pub mod FloorLaws
pub mod Refusal
