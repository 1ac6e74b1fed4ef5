-- What only contracts between functions cite.
pub mod Tally
pub mod Seams
