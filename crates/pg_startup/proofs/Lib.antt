pub mod Starting
pub mod Parameters
