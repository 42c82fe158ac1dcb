pub mod Calendar
pub mod Moments
pub mod Rotas
pub mod Texts
pub mod Fields
