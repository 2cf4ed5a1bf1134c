pub mod Rows
pub mod Unpacked
pub mod Fitting
pub mod Formats
pub mod Held
pub mod Outside
pub mod Places
pub mod Keys
