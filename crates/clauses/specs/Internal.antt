-- What only contracts between functions cite.
pub mod Marks
pub mod Reached
