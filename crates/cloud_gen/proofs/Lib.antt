pub mod Recorded
pub mod Chunks
