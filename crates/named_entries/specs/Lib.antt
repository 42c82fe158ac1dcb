pub mod Names
pub mod Unnamed
