pub mod Places
pub mod Held
pub mod Rows
pub mod Calls
pub mod Closing
