pub mod Fields
pub mod Stepping
