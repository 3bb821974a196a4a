pub mod Codes
pub mod Standings
pub mod Entries
pub mod Turns
pub mod Serving
pub mod Faults
