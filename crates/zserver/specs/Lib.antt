pub mod Server
pub mod support
