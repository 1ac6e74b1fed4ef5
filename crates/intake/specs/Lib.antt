pub mod Intake
pub mod Internal
