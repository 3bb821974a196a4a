pub mod Machine
pub mod View
pub mod Table
pub mod Memory
pub mod Laws
pub mod support
