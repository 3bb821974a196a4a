pub mod Bare
pub mod States
pub mod Records
pub mod ReadSoFar
pub mod Texts
pub mod Apart
pub mod Starts
pub mod Chunks
