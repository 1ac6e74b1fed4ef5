-- What only contracts between functions cite.
pub mod Doubling
pub mod Steps
