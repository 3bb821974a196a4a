-- Definitions for the worked runs.
pub mod CutRows
