mod CellsKept
mod CellsPaged
mod CellsShown
pub mod CellsWhole
mod PlainTexts
