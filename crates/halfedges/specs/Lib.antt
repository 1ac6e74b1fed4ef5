pub mod Cage
pub mod Refusals
pub mod Counts
pub mod Corners
pub mod Internal
