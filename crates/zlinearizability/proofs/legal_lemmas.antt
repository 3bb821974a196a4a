pub mod acts
pub mod lists
pub mod order
