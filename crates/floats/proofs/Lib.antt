pub mod Exponent
pub mod Exact
pub mod Worked
