pub mod Bounds
pub mod Trimming
pub mod Reading
