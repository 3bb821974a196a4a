pub mod Logs
pub mod Incarnations
pub mod Serving
pub mod Leading
pub mod Opening
pub mod Parts
pub mod Renewing
pub mod Storing
