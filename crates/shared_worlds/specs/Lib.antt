pub mod Worlds
pub mod Sharing
