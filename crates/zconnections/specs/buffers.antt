pub mod Inputs
pub mod Outbox
pub mod Streams
pub mod support
