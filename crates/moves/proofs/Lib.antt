pub mod FormFirst
pub mod CageMoves
pub mod Moved
pub mod ThereAndBack
