pub mod Reports
pub mod Faults
pub mod Lines
pub mod Padding
