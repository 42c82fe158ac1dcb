pub mod Lawful
pub mod Joining
pub mod Alike
pub mod Answered
pub mod Served
