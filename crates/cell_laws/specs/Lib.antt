pub mod ShownCells
