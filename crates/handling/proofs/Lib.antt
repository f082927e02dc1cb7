pub mod Leaving
pub mod Moving
pub mod Dispatching
pub mod Ticking
pub mod Interrupting
