pub mod Scanning
pub mod Sendable
pub mod ShortWords
pub mod Meanings
