pub mod Events
pub mod Faults
pub mod Laws
pub mod Moments
pub mod Note
pub mod Waiting
pub mod File
