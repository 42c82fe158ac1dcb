pub mod Whole
pub mod Unchanged
