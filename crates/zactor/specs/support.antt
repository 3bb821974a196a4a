pub mod Codes
pub mod Inputs
pub mod Kinds
pub mod Rows
