pub mod Printing
pub mod Padded
pub mod Backward
pub mod Lengths
pub mod Scanned
pub mod Reading
pub mod OneAnswer
pub mod TextDecimals
