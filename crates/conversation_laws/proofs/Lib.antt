mod Discards
mod Telling
mod Parts
pub mod Names
pub mod Keeping
pub mod Taking
pub mod Gathering
pub mod Joining
pub mod OneRun
pub mod Scripted
pub mod RowsSteady
pub mod TableSteady
pub mod CallsGoOn
pub mod SomeRun
