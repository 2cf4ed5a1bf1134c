pub mod Parts
pub mod Columns
pub mod Forward
pub mod Ferries
pub mod Groups
pub mod NamedFields
pub mod ExtraDims
