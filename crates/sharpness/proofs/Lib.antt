pub mod Checks
pub mod Meaning
pub mod Carried
pub mod Edges
pub mod NextCreases
pub mod Levels
pub mod Examples
