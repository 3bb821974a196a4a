pub mod Inputs
pub mod Outputs
pub mod Readers
pub mod Apart
pub mod Serving
pub mod Lengths
