pub mod IndexView
pub mod Fields
