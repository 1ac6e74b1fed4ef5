pub mod Tables
pub mod Rules
pub mod Fans
pub mod Ruled
pub mod Check
pub mod Internal
