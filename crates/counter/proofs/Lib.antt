pub mod Sendable
pub mod Counting
