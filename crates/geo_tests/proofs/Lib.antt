pub mod Around
pub mod Outside
pub mod Rectangle
pub mod Rounds
pub mod Sides
pub mod Turns
pub mod Within
pub mod Walks
