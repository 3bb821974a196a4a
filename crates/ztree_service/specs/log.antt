pub mod Logs
pub mod Incarnations
