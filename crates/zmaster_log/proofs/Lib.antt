pub mod Flags
pub mod Parts
pub mod Gone
pub mod TheMaster
pub mod Orders
pub mod Numbers
pub mod Bytes
