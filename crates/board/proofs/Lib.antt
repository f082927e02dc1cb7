pub mod DumpRoom
pub mod Determined
pub mod Runs
pub mod Gathered
