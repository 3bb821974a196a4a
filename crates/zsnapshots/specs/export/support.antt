-- What only proofs and worked examples use: no reader has to check it.
pub mod Counting
pub mod Samples
