pub mod Loading
pub mod Reading
