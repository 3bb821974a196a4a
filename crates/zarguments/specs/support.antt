-- Definitions for the worked examples alone.
pub mod Rows
