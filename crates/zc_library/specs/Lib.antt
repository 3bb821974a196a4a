pub mod Service
pub mod Uses
