-- Definitions for the proofs alone.
pub mod Codes
pub mod Samples
pub mod Shared
