pub mod Sums
pub mod Paths
pub mod Fields
pub mod Calls
pub mod Records
pub mod Lines
pub mod Texts
pub mod Faults
