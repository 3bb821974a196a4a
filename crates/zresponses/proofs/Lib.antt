pub mod effects_lemmas
pub mod PartsDone
pub mod Made
pub mod Bases
