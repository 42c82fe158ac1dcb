pub mod Desk
pub mod Flaky
