pub mod attachments
pub mod buffers
pub mod Laws
pub mod Sweeping
pub mod Tables
pub mod Reporting
pub mod support
