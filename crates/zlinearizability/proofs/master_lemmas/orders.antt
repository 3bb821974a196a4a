-- Servers take the master's orders.
pub mod OrderViews
pub mod OrderSteps
pub mod Neighbours
pub mod NewViews
pub mod Successors
pub mod Handovers
pub mod Orders
