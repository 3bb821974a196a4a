pub mod Codes
pub mod Samples
