pub mod Answers
mod Waiting
mod Beginning
