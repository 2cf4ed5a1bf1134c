pub mod Moving
pub mod Judging
pub mod Places
pub mod Marking
