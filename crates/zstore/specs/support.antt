-- Definitions for the proofs alone: the fields of a store, how changes are undone, and the parts of
-- its changes.
pub mod Undoing
pub mod Stored
pub mod Parts
pub mod Samples
pub mod Timeouts
