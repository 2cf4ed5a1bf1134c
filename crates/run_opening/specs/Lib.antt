pub mod Begun
pub mod Headers
pub mod Binding
pub mod Opening
pub mod Ready
pub mod Taken
