pub mod Places
pub mod Meeting
pub mod Timetables
pub mod Entries
pub mod Removed
pub mod Found
pub mod Taken
