pub mod PathCosts
pub mod NumberOrder
pub mod TwoParts
pub mod DelayLaws
pub mod FewestLinesLaws
