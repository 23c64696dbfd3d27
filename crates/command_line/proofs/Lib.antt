pub mod AskingLemmas
pub mod SubcommandLemmas
pub mod TimingLemmas
