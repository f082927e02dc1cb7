pub mod EndingRounds
pub mod Sending
pub mod Asking
pub mod Naming
