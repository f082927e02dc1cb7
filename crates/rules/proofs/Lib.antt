-- The laws that belong to no one function of the crate.
pub mod Bits
pub mod Masks
pub mod Runners
