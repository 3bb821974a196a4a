-- Lists, of whatever there is.
pub mod Distinct
pub mod Members
pub mod Places
pub mod Prefixes
pub mod Tests
