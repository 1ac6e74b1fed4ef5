pub mod Decimal
pub mod Words
pub mod Texts
pub mod Replying
pub mod Numerals
