pub mod Sendable
pub mod Showing
