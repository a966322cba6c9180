pub mod Explain
pub mod Replay
