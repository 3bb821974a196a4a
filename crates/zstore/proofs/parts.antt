-- The parts of a store that its changes change, and what undoes these.
pub mod Maps
pub mod Undone
pub mod Cached
pub mod Fitting
pub mod Noted
pub mod Steps
pub mod Noting
pub mod Alive
pub mod Restored
