pub mod Parts
pub mod Changes
