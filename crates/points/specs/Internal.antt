-- What only contracts between functions cite.
pub mod Cells
pub mod Parts
pub mod Relied
pub mod Creased
