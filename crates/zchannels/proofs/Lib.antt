pub mod Fair
pub mod Stays
pub mod MeshRows
pub mod Said
pub mod Orders
pub mod Turns
pub mod Same
