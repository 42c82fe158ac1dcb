pub mod Lines
pub mod Told
pub mod Refusal
pub mod Files
pub mod Reader
