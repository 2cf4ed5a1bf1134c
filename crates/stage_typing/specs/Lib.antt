pub mod Meeting
pub mod OptionFaults
pub mod Outputs
pub mod Typed
pub mod TypedTree
