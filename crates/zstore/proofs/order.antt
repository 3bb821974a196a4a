-- In which order the nodes of a session go.
pub mod Any
pub mod All
