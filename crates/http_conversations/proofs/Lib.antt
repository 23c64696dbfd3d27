pub mod HeadLemmas
pub mod TextLemmas
pub mod PageLemmas
pub mod SaidLemmas
pub mod AskLemmas
pub mod PageTextLemmas
pub mod Steps
pub mod CallLemmas
pub mod ReasonLemmas
pub mod AnswerSteps
mod ServeLemmas
mod NextLemmas
mod ServeReasonLemmas
