pub mod PrintableLemmas
pub mod RecentLemmas
pub mod MetricsLemmas
