pub mod Openings
pub mod Endpoints
pub mod Leavings
pub mod Still
pub mod Pairs
pub mod Places
pub mod Left
mod Calls
pub mod Elements
pub mod Stands
pub mod Accounts
pub mod Whole
