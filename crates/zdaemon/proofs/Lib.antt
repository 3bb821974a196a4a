pub mod pipe_lemmas
pub mod Bases
pub mod Chunks
pub mod Running
pub mod Strangers
