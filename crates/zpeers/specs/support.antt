pub mod Codes
pub mod Faults
pub mod Waiting
pub mod Arriving
pub mod Samples
