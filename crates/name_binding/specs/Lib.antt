pub mod Refusals
pub mod Ferries
pub mod Binding
