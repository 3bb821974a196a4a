pub mod Opening
pub mod Samples
