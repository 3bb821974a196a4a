pub mod Changing
pub mod Short
pub mod Heads
pub mod Cutting
pub mod Admitting
pub mod Pieces
pub mod Guards
