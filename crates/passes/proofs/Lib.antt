pub mod Next
pub mod Passed
pub mod Climbed
pub mod Lent
pub mod Drawn
