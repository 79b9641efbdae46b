pub mod Renewal
pub mod Orders
pub mod Examples
