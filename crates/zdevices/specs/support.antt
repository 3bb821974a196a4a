-- Definitions for the proofs alone. A reader of the contracts needs none of them.
pub mod DeviceLaws
pub mod Seen
