pub mod ClientMessages
pub mod Events
pub mod Queries
pub mod ServerMessages
pub mod ServerViews
pub mod TakerLogs
