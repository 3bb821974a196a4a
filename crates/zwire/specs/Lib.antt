pub mod records
pub mod Fields
pub mod Replies
pub mod Messages
pub mod Frames
pub mod Laws
pub mod support
