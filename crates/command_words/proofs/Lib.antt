pub mod Numerals
pub mod OptionLemmas
pub mod Runs
pub mod Fronts
pub mod Places
pub mod Bounds
