pub mod Inputs
pub mod Outputs
pub mod Serving
pub mod Laws
