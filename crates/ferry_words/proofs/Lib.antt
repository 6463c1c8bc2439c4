pub mod TableLemmas
pub mod PartsLemmas
pub mod OperandLemmas
pub mod WordsLemmas
pub mod LawsLemmas
pub mod PlaceLemmas
pub mod NumberLemmas
pub mod RestoreLemmas
