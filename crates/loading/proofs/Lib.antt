pub mod Cutting
pub mod Filling
pub mod Finding
pub mod Comparing
pub mod Placing
pub mod Exits
pub mod Promises
