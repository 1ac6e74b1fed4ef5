pub mod Opposite
pub mod Numbering
pub mod RuleSix
pub mod Doubles
pub mod Crossing
pub mod Joins
pub mod Renumbered
