pub mod attachments_lemmas
pub mod buffers_lemmas
pub mod Closed
pub mod Frames
pub mod Rising
pub mod Worked
