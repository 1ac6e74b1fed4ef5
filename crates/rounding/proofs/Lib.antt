pub mod Floor
pub mod Nearest
pub mod Scaled
