pub mod Columns
pub mod Outcomes
pub mod Statuses
pub mod Program
pub mod Reading
