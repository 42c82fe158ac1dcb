pub mod Draws
pub mod Load
pub mod Client
pub mod Counting
