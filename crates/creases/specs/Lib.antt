pub mod Creases
pub mod Check
pub mod Internal
