-- From a list of items to a legal order.
pub mod KeptItems
pub mod LegalOrders
pub mod PlainTree
