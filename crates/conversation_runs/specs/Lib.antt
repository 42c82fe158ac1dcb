pub mod Messages
pub mod Run
pub mod Session
pub mod Steps
pub mod Streams
pub mod Causes
pub mod Ready
pub mod SentFirst
