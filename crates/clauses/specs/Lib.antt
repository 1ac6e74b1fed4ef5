pub mod Clauses
pub mod Shown
pub mod Explained
pub mod Internal
