pub mod Held
pub mod Whole
pub mod Places
pub mod Examples
