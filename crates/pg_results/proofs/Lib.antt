pub mod Paging
pub mod Delivering
pub mod SameColumns
pub mod Taking
