pub mod OverLemmas
pub mod StatusLemmas
pub mod LawLemmas
