pub mod NameMaps
pub mod UnnamedEntries
