pub mod OrderLemmas
pub mod PlaceLemmas
pub mod UnionLemmas
pub mod NextLemmas
