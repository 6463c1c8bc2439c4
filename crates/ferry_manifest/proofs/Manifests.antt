pub mod ReadLemmas
pub mod OrderLemmas
pub mod PackableLemmas
pub mod WriteLemmas
pub mod OrderedLemmas
pub mod AgainLemmas
pub mod LawLemmas
