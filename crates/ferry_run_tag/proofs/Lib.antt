pub mod ShowLemmas
pub mod EndLemmas
pub mod CauseLemmas
pub mod DoneLemmas
