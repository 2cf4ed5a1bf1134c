pub mod Outcomes
pub mod Causes
pub mod Results
pub mod Stages
pub mod Runs
pub mod Least
