pub mod Plain
pub mod Internal
