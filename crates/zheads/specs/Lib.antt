pub mod Heads
pub mod OneLog
pub mod Law
pub mod support
