pub mod Sent
pub mod Copied
pub mod PagesSent
pub mod Pieces
pub mod Encodable
