pub mod Months
pub mod Summaries
pub mod Calendars
pub mod MonthReports
pub mod Laws
pub mod Examples
