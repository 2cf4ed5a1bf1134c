pub mod Covers
pub mod Forest
pub mod Parts
pub mod Ranges
pub mod Ways
