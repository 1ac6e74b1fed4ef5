pub mod Lines
pub mod Outcomes
