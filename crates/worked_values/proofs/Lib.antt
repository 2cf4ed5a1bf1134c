pub mod Forms
pub mod Pushing
