pub mod Counted
pub mod Done
pub mod Jobs
pub mod Blame
pub mod Stopping
pub mod ReadAhead
