pub mod Reported
pub mod Asked
