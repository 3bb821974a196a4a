pub mod Finds
pub mod Changes
