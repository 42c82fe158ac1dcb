pub mod Counts
pub mod StatusLines
