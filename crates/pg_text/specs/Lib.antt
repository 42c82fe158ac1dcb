pub mod Cells
pub mod Words
pub mod Dates
pub mod Intervals
