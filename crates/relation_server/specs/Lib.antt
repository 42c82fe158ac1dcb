pub mod Demo
pub mod Jobs
pub mod Outcomes
pub mod Places
pub mod Program
pub mod RelationJobs
pub mod Running
