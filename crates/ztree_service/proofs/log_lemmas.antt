pub mod Incarnations
pub mod Logs
