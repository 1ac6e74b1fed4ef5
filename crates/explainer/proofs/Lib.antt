pub mod Stops
pub mod Outcomes
pub mod Buffer
