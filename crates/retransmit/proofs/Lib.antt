pub mod Every
pub mod Sofar
pub mod Listed
pub mod Listing
pub mod Asking
