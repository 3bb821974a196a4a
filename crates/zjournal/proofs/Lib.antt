pub mod file_lemmas
pub mod Adler
mod Blocks
pub mod Digits
pub mod Files
mod Heads
mod Cached
pub mod Moments
mod Opens
pub mod Puts
pub mod Readings
pub mod Renewals
mod Runs
pub mod Scan
mod Steps
pub mod Sums
