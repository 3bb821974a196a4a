-- What serves to show the invariants, and is part of no promise.
pub mod WrongTables
