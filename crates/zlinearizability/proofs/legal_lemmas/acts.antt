-- The entries of a log that act, and the items that a growing log brings.
pub mod ActedLogs
pub mod NewItems
