pub mod ReadLemmas
pub mod FieldLemmas
pub mod RowLemmas
pub mod FrontLemmas
pub mod LimitLemmas
