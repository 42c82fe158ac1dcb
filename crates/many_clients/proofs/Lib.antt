pub mod Handles
mod Serving
mod Taking
