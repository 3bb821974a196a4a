pub mod Nodes
pub mod Log
pub mod Bytes
pub mod Laws
pub mod support
