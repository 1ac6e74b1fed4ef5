pub mod Exporting
pub mod Internal
