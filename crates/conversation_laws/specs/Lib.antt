pub mod Discarding
pub mod Pages
pub mod Steady
