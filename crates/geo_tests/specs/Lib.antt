pub mod Extents
pub mod Limits
pub mod Rectangles
pub mod Tests
