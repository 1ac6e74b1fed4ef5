pub mod Contents
pub mod FileChecks
pub mod Internal
