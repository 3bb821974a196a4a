pub mod Rows
pub mod TableView
pub mod Fields
