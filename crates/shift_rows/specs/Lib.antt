pub mod ShiftRows
