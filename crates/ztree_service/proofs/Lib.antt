pub mod log_lemmas
pub mod Stepping
pub mod Anew
