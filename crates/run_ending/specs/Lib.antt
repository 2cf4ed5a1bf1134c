pub mod All
pub mod Putting
pub mod Each
pub mod Finished
pub mod Keeping
