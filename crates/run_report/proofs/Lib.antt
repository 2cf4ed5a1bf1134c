pub mod Lines
mod Padding
