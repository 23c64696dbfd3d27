pub mod LeadLemmas
pub mod Merged
pub mod WorldLemmas
pub mod RestLemmas
mod GainLemmas
pub mod Ends
mod DoorLemmas
mod TurnLemmas
mod SlotLemmas
mod TextLemmas
