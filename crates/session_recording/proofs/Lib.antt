pub mod Steps
pub mod Origins
pub mod Recordings
