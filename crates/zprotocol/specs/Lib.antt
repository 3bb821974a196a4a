pub mod world
pub mod traces
pub mod Places
pub mod server
pub mod master
pub mod client
pub mod Posts
