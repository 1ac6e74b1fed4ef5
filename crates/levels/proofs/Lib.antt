pub mod Stages
pub mod Copied
pub mod Granted
