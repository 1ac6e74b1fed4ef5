-- What only contracts between functions cite.
pub mod Room
pub mod Fronts
