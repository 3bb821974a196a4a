pub mod Codes
pub mod Terms
pub mod Asking
pub mod Requests
pub mod Timeouts
pub mod Laws
pub mod support
