-- What only contracts between functions cite.
pub mod Reach
pub mod Alike
pub mod Narrowed
