pub mod Numerals
pub mod NumberLines
pub mod Entries
pub mod Parts
