pub mod Walks
pub mod Puttings
pub mod Parts
pub mod Showing
