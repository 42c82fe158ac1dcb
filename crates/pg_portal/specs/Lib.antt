pub mod Encoding
pub mod Told
pub mod Maps
pub mod Fetching
pub mod Parameters
pub mod Statements
