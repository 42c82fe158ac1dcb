pub mod Around
pub mod Conversing
pub mod Serving
pub mod Completeness
