pub mod Inboxing
pub mod Lettering
pub mod Noticing
