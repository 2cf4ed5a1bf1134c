pub mod Values
pub mod Asked
pub mod Lists
pub mod Forwarded
pub mod States
pub mod Options
