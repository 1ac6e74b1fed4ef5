pub mod Cells
pub mod Internal
