pub mod Slots
pub mod Rule
pub mod Known
pub mod Parcels
pub mod Ends
pub mod Fresh
