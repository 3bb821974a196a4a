pub mod Records
pub mod Outgoing
pub mod Incoming
pub mod Laws
pub mod support
