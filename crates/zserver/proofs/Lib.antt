pub mod Accepting
pub mod Sending
