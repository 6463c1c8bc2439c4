pub mod StatusLemmas
pub mod TellLemmas
pub mod LeftLemmas
pub mod OpenedLemmas
pub mod UnreadLemmas
