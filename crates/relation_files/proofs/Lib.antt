pub mod GivenBytes
pub mod Blocks
pub mod Fields
pub mod Polls
pub mod Steps
pub mod Taken
pub mod Valid
