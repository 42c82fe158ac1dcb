pub mod Answering
pub mod Completing
