mod Rows
pub mod Spots
pub mod StepsCut
pub mod Streams
pub mod Admits
pub mod Choosing
pub mod ByView
pub mod Merging
pub mod FiltersStream
pub mod Faults
pub mod Heads
pub mod Through
