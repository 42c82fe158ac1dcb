mod WritingLemmas
pub mod LineLemmas
