pub mod Complete
mod Heaps
mod ClientRecords
