pub mod NodesView
pub mod support
pub mod index
