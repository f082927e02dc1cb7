pub mod Index
pub mod Marks
