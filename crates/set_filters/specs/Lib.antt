pub mod Kinds
pub mod Stops
pub mod Examples
