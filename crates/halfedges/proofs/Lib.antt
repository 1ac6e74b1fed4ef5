pub mod Checks
pub mod Told
pub mod Growth
pub mod ClosedForms
pub mod Shifted
pub mod Questions
pub mod Triangle
