pub mod support
