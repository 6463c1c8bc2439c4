pub mod OutputLemmas
pub mod LinesLemmas
pub mod WalkLemmas
pub mod FileLemmas
pub mod SoFarLemmas
pub mod ContentLemmas
pub mod ShownLemmas
pub mod LawLemmas
