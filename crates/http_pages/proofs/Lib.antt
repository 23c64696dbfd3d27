pub mod TextLemmas
pub mod FloatLemmas
pub mod PlanLemmas
pub mod HeadLemmas
pub mod AnswerLemmas
