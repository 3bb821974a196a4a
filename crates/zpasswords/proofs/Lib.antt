pub mod Blocks
pub mod Differences
