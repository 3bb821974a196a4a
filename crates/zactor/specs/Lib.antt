pub mod Acting
pub mod support
