pub mod Names
pub mod Spans
pub mod Shifts
pub mod Kept
