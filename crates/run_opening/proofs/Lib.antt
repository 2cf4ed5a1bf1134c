pub mod Opening
pub mod Beginning
pub mod Binding
pub mod Bound
pub mod Taken
pub mod Works
pub mod Named
