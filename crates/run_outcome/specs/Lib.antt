pub mod Cause
pub mod Faults
pub mod Outcomes
pub mod Least
