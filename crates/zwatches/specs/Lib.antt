pub mod changes
pub mod Watches
pub mod Events
pub mod Removal
pub mod Laws
pub mod Limits
pub mod Samples
pub mod support
