pub mod Relying
pub mod Refined
pub mod Readied
pub mod Weighed
pub mod Whole
