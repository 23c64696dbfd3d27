pub mod Shown
pub mod Lines
pub mod Recent
pub mod Times
pub mod Counting
pub mod Counted
pub mod MetricsText
