pub mod Contents
pub mod ReadBack
pub mod WriteBack
pub mod Accepted
pub mod RoundTrips
pub mod Prefix
pub mod ThereAndBack
pub mod Examples
