pub mod Unchanged
pub mod Seen
pub mod Named
pub mod Split
