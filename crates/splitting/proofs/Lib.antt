pub mod Rows
pub mod Fill
pub mod Triangles
pub mod Soundness
pub mod Descent
