pub mod Jobs
pub mod Targets
