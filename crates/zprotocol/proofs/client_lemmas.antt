pub mod Projection
pub mod Cases
pub mod Tables
