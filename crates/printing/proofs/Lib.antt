pub mod Streams
pub mod Turning
pub mod Whole
