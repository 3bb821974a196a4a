pub mod Messages
pub mod Outputs
pub mod Readers
pub mod Apart
pub mod Sequences
pub mod Going
