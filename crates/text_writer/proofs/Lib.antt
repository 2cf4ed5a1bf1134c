pub mod Lists
pub mod Hex
pub mod Headings
pub mod Putting
pub mod Held
pub mod Whole
