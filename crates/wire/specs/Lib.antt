pub mod Faults
pub mod Lines
pub mod Fields
pub mod Reports
pub mod Form
pub mod Laws
