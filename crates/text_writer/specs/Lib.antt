pub mod Cells
pub mod TextOutput
