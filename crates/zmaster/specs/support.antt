pub mod Marks
pub mod Mending
pub mod Reporting
