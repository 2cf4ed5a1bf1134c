pub mod Behind
pub mod Others
pub mod Owning
