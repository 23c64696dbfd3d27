pub mod SlotLemmas
pub mod TurnLemmas
pub mod WaitingLemmas
