pub mod Changing
pub mod Counting
pub mod Samples
