pub mod Rounding
pub mod Internal
