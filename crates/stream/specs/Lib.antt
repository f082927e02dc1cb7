pub mod Stream
pub mod Loop
