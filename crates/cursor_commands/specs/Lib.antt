pub mod Limits
pub mod Commands
pub mod Asking
pub mod Cursors
pub mod Rewriting
