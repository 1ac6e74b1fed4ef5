pub mod LastCheck
pub mod FieldLaws
pub mod FrontToBack
pub mod AfterTables
pub mod Lengths
pub mod Sound
pub mod Places
