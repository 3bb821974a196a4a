-- The opening, and the steps that events are made of.
pub mod Commits
pub mod Cuts
pub mod Drops
pub mod Opening
pub mod Puts
pub mod Sends
pub mod ServerSteps
pub mod Stops
pub mod Takes
pub mod Views
