pub mod Alls
pub mod Behind
pub mod Finding
pub mod Fits
pub mod Naming
pub mod Passing
pub mod Standing
