pub mod Listening
pub mod Words
pub mod Statuses
pub mod Program
