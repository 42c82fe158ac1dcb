pub mod Steps
pub mod Trying
pub mod Doing
