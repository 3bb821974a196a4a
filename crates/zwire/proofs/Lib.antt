pub mod records_lemmas
pub mod Fields
pub mod Names
pub mod Replies
pub mod Messages
pub mod Steady
pub mod Frames
