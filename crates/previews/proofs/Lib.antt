pub mod FloatLemmas
pub mod NightLemmas
pub mod LatestLemmas
pub mod PreviewLemmas
