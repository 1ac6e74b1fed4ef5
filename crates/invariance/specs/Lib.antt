pub mod Invariance
