pub mod Refining
pub mod Internal
