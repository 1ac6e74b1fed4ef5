pub mod Sentences
pub mod Internal
