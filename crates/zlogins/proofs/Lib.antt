pub mod Differences
pub mod Lines
