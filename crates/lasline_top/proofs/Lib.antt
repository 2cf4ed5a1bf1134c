pub mod Absent
pub mod Printed
pub mod Planned
pub mod Ran
pub mod Made
pub mod Tried
pub mod Failing
pub mod Statuses
pub mod Called
pub mod Reading
pub mod Runnable
pub mod Back
mod Crossing
pub mod Least
