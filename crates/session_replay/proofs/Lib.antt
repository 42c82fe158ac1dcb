pub mod Differing
pub mod Replays
pub mod Judging
pub mod Telling
