pub mod Events
pub mod chain
pub mod orders
