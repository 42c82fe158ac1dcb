pub mod QueryTexts
pub mod Stops
