pub mod Clients
pub mod Jobs
pub mod Listening
pub mod Registrations
