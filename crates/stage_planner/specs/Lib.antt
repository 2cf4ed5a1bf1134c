pub mod Covering
pub mod Examples
pub mod Plans
