pub mod Hmac
pub mod Passwords
pub mod support
