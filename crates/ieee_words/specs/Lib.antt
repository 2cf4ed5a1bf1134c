pub mod Word
pub mod Near
pub mod Sizes
pub mod NearWord
pub mod Dec
pub mod DecimalOfWord
pub mod Order
pub mod Scale
