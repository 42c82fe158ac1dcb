pub mod CountLemmas
pub mod PageLemmas
pub mod ReplyLemmas
pub mod SendLemmas
pub mod TagLemmas
pub mod WriteLemmas
pub mod WordLemmas
