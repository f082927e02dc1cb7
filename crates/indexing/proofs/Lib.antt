pub mod Indexing
pub mod Marking
pub mod Passing
pub mod Standing
pub mod Tallying
pub mod Wraps
