pub mod Text
pub mod Judging
