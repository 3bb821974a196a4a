pub mod StoreView
pub mod Limiting
pub mod Restored
pub mod RestoredLaws
pub mod support
