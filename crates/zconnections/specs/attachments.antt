pub mod Laws
pub mod Attachments
pub mod support
