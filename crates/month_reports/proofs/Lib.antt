pub mod CalendarLemmas
pub mod DayLemmas
pub mod MonthLemmas
pub mod OrderLemmas
pub mod RunLemmas
