pub mod Names
pub mod Unkept
