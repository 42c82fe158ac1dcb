pub mod Tables
pub mod Queries
pub mod Values
pub mod Told
pub mod Shared
pub mod Made
