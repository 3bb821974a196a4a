pub mod Deadlines
pub mod support
