pub mod Forms
pub mod Choices
pub mod Readers
pub mod Shapes
pub mod Laws
pub mod Samples
