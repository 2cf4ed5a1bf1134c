pub mod Integers
pub mod HalfAway
pub mod OneRounding
pub mod Guesses
