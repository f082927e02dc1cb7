pub mod Dumping
pub mod Shown
