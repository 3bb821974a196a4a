pub mod Cluster
pub mod Laws
pub mod support
