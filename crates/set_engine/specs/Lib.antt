pub mod Stops
pub mod Taking
pub mod Fits
pub mod Given
pub mod Gathering
pub mod Showing
pub mod Evaluated
