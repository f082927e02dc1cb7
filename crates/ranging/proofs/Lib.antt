pub mod Climbing
pub mod Leading
pub mod Neighbours
pub mod Raising
pub mod Rising
pub mod Waiters
