pub mod Entries
pub mod States
pub mod Texts
pub mod Compaction
pub mod Faults
pub mod Laws
pub mod support
