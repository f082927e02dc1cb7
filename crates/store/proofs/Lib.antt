pub mod Filled
pub mod Lengths
pub mod Letters
pub mod Limits
pub mod Marking
pub mod Removed
pub mod Searched
pub mod Written
