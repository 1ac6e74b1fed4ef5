-- What only contracts between functions cite.
pub mod Pieces
