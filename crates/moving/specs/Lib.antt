pub mod Marks
pub mod Row
