pub mod Queue
pub mod Beginning
pub mod Choice
pub mod Mirror
pub mod Offers
pub mod Lines
pub mod Turn
pub mod Root
