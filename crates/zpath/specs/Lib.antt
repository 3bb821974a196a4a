pub mod First
pub mod Grammar
pub mod Faults
pub mod Laws
pub mod Numbered
pub mod support
