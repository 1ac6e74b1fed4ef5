pub mod Writes
pub mod Written
pub mod Meeting
pub mod Joined
