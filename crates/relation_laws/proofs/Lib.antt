mod ErrorKinds
mod Texts
mod Items
mod Cells
mod Rows
mod Refusals
mod Runs
