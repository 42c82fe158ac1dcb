pub mod Sheets
pub mod Meeting
pub mod Steps
pub mod Unchanging
