pub mod Outcomes
pub mod Verdict
pub mod Fronts
pub mod Told
