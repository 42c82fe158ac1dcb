mod LongRows
pub mod Sendable
