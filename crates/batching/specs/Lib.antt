pub mod Batching
pub mod Runs
pub mod Example
