pub mod Replies
pub mod Descriptions
pub mod ResponseRows
pub mod PageEnd
pub mod RowSending
pub mod Sending
pub mod Telling
