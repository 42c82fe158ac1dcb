pub mod LegalHistory
pub mod Index
pub mod Connections
pub mod RosterTable
