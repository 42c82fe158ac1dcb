pub mod Meeting
pub mod ShortQueries
pub mod Ordering
pub mod Transactions
pub mod Replying
