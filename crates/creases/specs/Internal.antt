-- What only contracts between functions cite.
pub mod Writing
pub mod Borders
