pub mod pipe_lemmas
pub mod node_lemmas
