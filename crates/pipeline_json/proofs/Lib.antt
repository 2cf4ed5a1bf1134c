pub mod Judged
pub mod Members
pub mod Numbers
pub mod Taken
pub mod Texts
pub mod TreeFacts
