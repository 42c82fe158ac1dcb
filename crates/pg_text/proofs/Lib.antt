pub mod Cells
pub mod Commas
pub mod Texts
pub mod Trimming
