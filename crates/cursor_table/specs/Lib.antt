pub mod CursorTable
