pub mod MemoryStock
pub mod MemoryAnswers
pub mod MemoryJourneys
pub mod MemoryNext
pub mod Memory
