pub mod Each
pub mod Plain
pub mod Open
pub mod Meanings
pub mod Parts
pub mod SessionCalls
