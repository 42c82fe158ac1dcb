pub mod Turns
pub mod CursorLaws
