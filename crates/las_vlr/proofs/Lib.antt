pub mod Heads
pub mod Readings
pub mod Appended
pub mod Entries
pub mod WrittenLists
