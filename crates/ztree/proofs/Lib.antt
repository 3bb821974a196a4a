pub mod Sorted
pub mod Maps
pub mod Entries
pub mod Among
pub mod Nodes
pub mod Children
pub mod Lawful
pub mod Ephemerals
pub mod Ending
pub mod LawfulEnd
pub mod StaleGone
pub mod Listed
pub mod Room
pub mod Paths
mod Worked
