pub mod NumberLaws
pub mod Fits
