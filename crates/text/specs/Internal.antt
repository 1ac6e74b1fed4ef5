-- What only contracts between functions cite.
pub mod Put
pub mod LevelWords
pub mod Handed
