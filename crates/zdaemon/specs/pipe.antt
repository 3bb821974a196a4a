pub mod Messages
pub mod Outputs
pub mod Laws
pub mod Serving
