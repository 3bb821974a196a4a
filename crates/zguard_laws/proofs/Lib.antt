pub mod Inner
mod Frames
mod Reading
mod Calls
mod Known
mod Strangers
