-- What only contracts between functions cite.
pub mod Sums
pub mod Spokes
pub mod Fours
pub mod Vertices
