pub mod frames_lemmas
pub mod watches_lemmas
pub mod Held
pub mod Seated
pub mod Cached
pub mod Changes
pub mod Lighter
pub mod Walking
pub mod Wishes
pub mod Working
pub mod Rising
pub mod Starts
mod Living
pub mod Ending
pub mod Steps
pub mod Calling
pub mod Serving
pub mod Coming
pub mod Bare
pub mod Restored
pub mod Inputs
pub mod Sessions
pub mod Quiet
pub mod Greeted
pub mod Handled
pub mod Given
mod Heard
mod Got
