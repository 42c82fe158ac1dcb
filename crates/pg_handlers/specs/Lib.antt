pub mod Polling
pub mod Sending
pub mod PolledQueries
pub mod Beginning
