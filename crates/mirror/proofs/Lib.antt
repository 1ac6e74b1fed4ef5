pub mod Turned
pub mod Mirrored
pub mod Levels
pub mod Checks
pub mod Pads
