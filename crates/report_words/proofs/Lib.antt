pub mod JobLemmas
pub mod TargetLemmas
