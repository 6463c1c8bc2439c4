pub mod XorLemmas
pub mod PbkdfLemmas
pub mod CallerLemmas
mod LaneLemmas
mod RoundLemmas
mod EndingLemmas
mod FourLemmas
mod ManyLemmas
mod OrderLemmas
