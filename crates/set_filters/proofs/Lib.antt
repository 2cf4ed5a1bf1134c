pub mod Firsts
pub mod Givings
pub mod Parts
