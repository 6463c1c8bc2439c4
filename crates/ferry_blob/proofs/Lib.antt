pub mod StreamLemmas
pub mod BlobLemmas
pub mod SealLemmas
pub mod LawLemmas
pub mod CallerLemmas
pub mod BatchLemmas
mod ManyLemmas
