-- Definitions for the proofs alone. A reader of the contracts needs none of them.
pub mod Left
pub mod Spaced
pub mod Rows
pub mod Words
