pub mod Order
pub mod Fields
pub mod Names
pub mod Passes
