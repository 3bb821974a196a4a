-- The master changes the chain, and puts orders.
pub mod MendedChains
pub mod Moves
pub mod StandingChains
pub mod RepairOrders
pub mod UsedNumbers
pub mod Departures
pub mod Joins
