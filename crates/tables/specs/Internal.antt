-- What only contracts between functions cite.
pub mod Above
pub mod Tally
pub mod Walks
pub mod Relied
