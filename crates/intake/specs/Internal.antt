-- What only contracts between functions cite.
pub mod Buffer
pub mod Steps
