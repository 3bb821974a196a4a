pub mod world_lemmas
pub mod traces_lemmas
pub mod Places
pub mod server_lemmas
pub mod master_lemmas
pub mod client_lemmas
pub mod Posts
