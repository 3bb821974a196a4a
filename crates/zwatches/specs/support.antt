-- For proofs and worked examples only.
pub mod Codes
pub mod Groups
pub mod Nested
pub mod Shares
