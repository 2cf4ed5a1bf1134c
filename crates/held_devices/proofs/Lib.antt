pub mod Lists
pub mod Sums
pub mod Releasing
pub mod Handing
