pub mod Startup
pub mod Steady
