pub mod Reading
pub mod Internal
