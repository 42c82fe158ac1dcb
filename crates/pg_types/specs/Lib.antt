pub mod Types
pub mod Formats
pub mod Options
