pub mod Asked
pub mod Words
pub mod Reporting
pub mod support
