pub mod Judged
pub mod Lists
pub mod Shown
pub mod Stages
pub mod TreeShown
pub mod Trees
