pub mod NextLevel
pub mod Internal
