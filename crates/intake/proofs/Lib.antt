pub mod Outcomes
pub mod Buffer
