pub mod Homomorphism
pub mod Cases
pub mod Rows
