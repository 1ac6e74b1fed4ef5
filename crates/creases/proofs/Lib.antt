pub mod Table
pub mod Borders
pub mod CreaseChecks
pub mod Filled
pub mod Halves
pub mod Written
pub mod Accepted
