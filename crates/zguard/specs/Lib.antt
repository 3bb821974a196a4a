pub mod Judging
pub mod Guarding
pub mod Laws
pub mod support
