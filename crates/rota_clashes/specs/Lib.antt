pub mod Clashes
pub mod Gains
pub mod Shifts
