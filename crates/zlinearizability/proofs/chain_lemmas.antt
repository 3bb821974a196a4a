pub mod Events
pub mod flow
pub mod links
pub mod places
pub mod steps
pub mod tables
pub mod WrongTables
