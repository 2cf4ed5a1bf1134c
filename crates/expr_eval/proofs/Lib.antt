pub mod Quotients
pub mod Renamed
