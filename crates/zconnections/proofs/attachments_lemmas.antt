pub mod Changed
pub mod Entries
