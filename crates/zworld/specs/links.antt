pub mod Places
pub mod support
