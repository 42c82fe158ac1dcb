pub mod Before
pub mod Desks
pub mod Scripts
