pub mod KeyLemmas
pub mod SealLemmas
pub mod OpensLemmas
pub mod LawLemmas
pub mod SampleLemmas
pub mod MeaningLemmas
