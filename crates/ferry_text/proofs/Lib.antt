mod AppendLemmas
pub mod CallerLemmas
mod LawLemmas
mod TextLemmas
