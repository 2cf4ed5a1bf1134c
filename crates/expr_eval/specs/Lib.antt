pub mod DimCodes
pub mod Trees
pub mod Forms
pub mod Bindings
pub mod Values
pub mod Codes
