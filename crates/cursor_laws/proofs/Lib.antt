mod Changing
mod Executing
mod Fetching
mod Keeping
mod Gathered
mod Example
