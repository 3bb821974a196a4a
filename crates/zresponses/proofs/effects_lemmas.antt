pub mod Ends
pub mod Short
pub mod Granting
