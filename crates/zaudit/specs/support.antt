pub mod Findings
pub mod Heads
pub mod Replays
pub mod Verdict
