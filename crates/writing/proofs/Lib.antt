pub mod Accepted
pub mod WriteChecks
pub mod FieldWriting
pub mod Outcomes
pub mod Told
