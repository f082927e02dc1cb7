pub mod Shapes
pub mod Together
