pub mod Finished
pub mod Untold
pub mod Waiting
