pub mod folder
pub mod export
pub mod Rows
pub mod States
pub mod Loading
pub mod Laws
pub mod support
