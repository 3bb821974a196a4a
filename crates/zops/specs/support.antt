pub mod Codes
pub mod Fields
pub mod Names
pub mod Places
pub mod Ready
pub mod Rows
pub mod Steps
pub mod Stops
