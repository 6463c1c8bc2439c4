pub mod PlainLemmas
pub mod CompactLemmas
pub mod DoneLemmas
pub mod ToldLemmas
pub mod CompactCauseLemmas
