pub mod RowsOf
pub mod ByAncestor
pub mod Made
pub mod Ancestors
pub mod Outcomes
