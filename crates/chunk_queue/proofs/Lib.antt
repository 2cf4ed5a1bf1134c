pub mod Held
pub mod Keeps
pub mod Steps
pub mod Settled
