pub mod Added
pub mod Cleared
pub mod Gathered
pub mod CornerAdded
pub mod FourAdded
pub mod Twelve
pub mod FourSpokes
pub mod Settled
