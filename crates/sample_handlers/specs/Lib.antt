pub mod Meanings
pub mod Told
