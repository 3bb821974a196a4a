pub mod Order
pub mod View
pub mod Table
pub mod Laws
pub mod support
