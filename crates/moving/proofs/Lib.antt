pub mod Found
pub mod Halving
pub mod Loops
pub mod Marking
pub mod Sets
pub mod Steps
