pub mod Alone
pub mod Counting
pub mod Rows
