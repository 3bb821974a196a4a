pub mod Samples
pub mod Faults
pub mod Reading
pub mod Loading
pub mod Writing
