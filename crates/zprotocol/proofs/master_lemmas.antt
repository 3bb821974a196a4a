pub mod Projection
pub mod Numbers
pub mod Cases
pub mod Bounds
pub mod Orders
pub mod Tables
