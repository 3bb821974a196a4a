-- Definitions for the proofs alone: the rows of the nodes, the lists that they are in, and what the
-- calls write.
pub mod OwnerLists
pub mod Counting
pub mod Rows
pub mod Reading
pub mod Linking
pub mod Fields
