pub mod AskingLemmas
pub mod CallLemmas
pub mod EndLemmas
pub mod NoteLemmas
pub mod PerformLemmas
pub mod TaskLemmas
