-- Lemmas and definitions for the proofs alone; no contract rests on them.
pub mod Plain
pub mod Texts
pub mod Lists
pub mod Shared
