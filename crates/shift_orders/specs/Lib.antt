pub mod Tokens
pub mod Stops
pub mod Statements
pub mod Orders
