-- Definitions for the proofs alone. A reader of the contracts needs none of them.
pub mod Lines
pub mod PlayerView
pub mod Played
pub mod Stops
pub mod Ends
pub mod Effects
pub mod Rows
pub mod Strict
