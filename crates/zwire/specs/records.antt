pub mod Sums
pub mod Fields
pub mod Calls
pub mod Records
pub mod Laws
pub mod support
