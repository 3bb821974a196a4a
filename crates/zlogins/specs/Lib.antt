pub mod Logins
pub mod Reading
pub mod support
