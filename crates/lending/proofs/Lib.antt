pub mod Standing
pub mod Determined
pub mod Runs
