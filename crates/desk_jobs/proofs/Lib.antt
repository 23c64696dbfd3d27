pub mod JobLemmas
pub mod AnswerLemmas
pub mod LoadLemmas
pub mod RecoveredLemmas
mod RunLemmas
pub mod ReasonLemmas
pub mod EndLemmas
pub mod FollowLemmas
pub mod MigrateLemmas
pub mod KnownLemmas
pub mod TellingLemmas
pub mod StageLemmas
pub mod OpeningLemmas
pub mod ExecutionLemmas
pub mod FileLemmas
