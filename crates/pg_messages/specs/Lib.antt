pub mod Fields
pub mod Frames
pub mod QueryHeaders
pub mod Reading
pub mod Replies
pub mod Status
pub mod TypedReading
