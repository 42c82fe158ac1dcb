pub mod StoreMaps
pub mod Fetches
pub mod TwoFetches
