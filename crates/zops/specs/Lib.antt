pub mod LimitsLaws
pub mod Machine
pub mod Restored
pub mod RestoredLaws
pub mod support
