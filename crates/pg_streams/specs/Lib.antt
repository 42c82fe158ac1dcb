pub mod Accepting
pub mod Counts
pub mod Memory
pub mod Sockets
