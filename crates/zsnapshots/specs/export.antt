pub mod Export
pub mod Counts
pub mod Texts
pub mod Laws
pub mod support
