pub mod Building
pub mod Own
pub mod Internal
