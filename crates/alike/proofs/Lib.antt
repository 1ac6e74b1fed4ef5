pub mod Reached
pub mod Chains
pub mod Firsts
pub mod Walks
pub mod Digits
