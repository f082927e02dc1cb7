pub mod Board
pub mod Runs
pub mod Gathered
pub mod Layout
