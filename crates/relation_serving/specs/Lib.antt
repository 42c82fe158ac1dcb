pub mod Completeness
pub mod Serving
