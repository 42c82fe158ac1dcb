pub mod CursorPages
pub mod Examples
