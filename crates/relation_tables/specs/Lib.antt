pub mod Names
pub mod Errors
pub mod Queries
pub mod Relations
pub mod RelationHandler
pub mod CoreTable
pub mod Premises
