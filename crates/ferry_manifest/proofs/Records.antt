pub mod ReadLemmas
pub mod AgainLemmas
pub mod LawLemmas
