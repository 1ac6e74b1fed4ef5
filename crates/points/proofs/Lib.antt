pub mod Shares
pub mod Numerators
pub mod Ends
pub mod Carriers
pub mod Range
pub mod Only
pub mod Holding
pub mod Alike
