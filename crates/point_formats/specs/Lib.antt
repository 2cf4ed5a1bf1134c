pub mod Grids
pub mod Formats
pub mod Records
pub mod Encoded
pub mod Laws
pub mod Layouts
pub mod Returning
