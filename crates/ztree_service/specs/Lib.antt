pub mod log
pub mod Machines
pub mod Sizes
pub mod Local
pub mod support
