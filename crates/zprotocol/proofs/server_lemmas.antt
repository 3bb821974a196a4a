pub mod Fields
pub mod Projection
pub mod Starts
pub mod Answering
pub mod Cases
pub mod Tables
