pub mod Codes
pub mod Replicas
