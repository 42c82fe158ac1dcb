pub mod CoreServing
pub mod Questions
mod ShownCells
mod Speaking
