pub mod parts
pub mod order
pub mod ids
pub mod Left
pub mod Rebuilt
pub mod Worked
