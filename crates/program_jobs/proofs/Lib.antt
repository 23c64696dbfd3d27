pub mod ReportLemmas
pub mod EndLemmas
pub mod ShowLemmas
pub mod LoadLemmas
pub mod ServeLemmas
pub mod BlockLemmas
pub mod ShownLemmas
pub mod OutcomeLemmas
pub mod SourceLemmas
mod PromiseLemmas
mod ChainLemmas
pub mod ComposeLemmas
mod TaskLemmas
