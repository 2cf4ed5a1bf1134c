pub mod Places
pub mod Pieces
pub mod Written
pub mod Fronts
pub mod Putting
