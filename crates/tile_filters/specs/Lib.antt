pub mod Cells
pub mod Tiles
pub mod Gathered
pub mod Examples
