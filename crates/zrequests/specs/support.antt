-- For proofs and worked examples only.
pub mod Samples
