-- What is in flight to a server from its predecessor.
pub mod Flow
