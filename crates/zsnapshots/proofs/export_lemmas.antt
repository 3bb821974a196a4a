pub mod Words
pub mod Data
pub mod Lines
pub mod Shown
pub mod Playing
pub mod Counting
pub mod Worked
