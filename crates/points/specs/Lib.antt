pub mod Weights
pub mod PointRules
pub mod NextPoints
pub mod Operations
pub mod Internal
