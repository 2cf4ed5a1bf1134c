pub mod Vlrs
pub mod Written
pub mod Limits
pub mod Same
pub mod ExtraBytes
