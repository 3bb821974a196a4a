pub mod links
pub mod Held
pub mod Did
pub mod Steps
pub mod support
