-- Members, their positions in the chain, and the orders that lead to them.
pub mod Heads
pub mod Orders
pub mod Pairs
