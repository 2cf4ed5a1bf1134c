pub mod Counted
pub mod Tops
pub mod Members
pub mod Trees
pub mod Nothing
pub mod Leading
pub mod Descent
pub mod Pushed
