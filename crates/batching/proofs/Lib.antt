pub mod FieldCount
pub mod Calling
pub mod Running
pub mod Serving
pub mod Determined
pub mod Example
pub mod Runs
