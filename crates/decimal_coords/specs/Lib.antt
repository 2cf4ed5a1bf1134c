pub mod Grid
pub mod Fixed
pub mod Grammar
pub mod Scanning
pub mod Parsed
pub mod DecimalOfText
