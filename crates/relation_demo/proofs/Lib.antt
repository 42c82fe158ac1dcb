pub mod DrawLemmas
pub mod NameLemmas
pub mod LoadLemmas
pub mod ClientLemmas
pub mod CountLemmas
mod Examples
