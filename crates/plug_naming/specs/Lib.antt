pub mod First
pub mod Kinds
