pub mod Numbers
pub mod Keys
pub mod Commands
pub mod Listening
pub mod File
