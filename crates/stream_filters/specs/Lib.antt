pub mod Kinds
pub mod Masks
