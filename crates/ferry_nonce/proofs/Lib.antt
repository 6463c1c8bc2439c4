pub mod TextLemmas
pub mod MomentLemmas
pub mod FileLemmas
