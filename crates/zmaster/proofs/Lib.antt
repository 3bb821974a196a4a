pub mod Marks
pub mod Mending
pub mod Rows
