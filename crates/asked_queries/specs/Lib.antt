pub mod Asking
pub mod Seen
