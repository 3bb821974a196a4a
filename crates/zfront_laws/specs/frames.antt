pub mod Talk
pub mod Laws
