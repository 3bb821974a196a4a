pub mod ClientMessages
pub mod ClientSteps
pub mod Events
