pub mod Below
pub mod Joined
pub mod Starts
pub mod Later
pub mod Out
