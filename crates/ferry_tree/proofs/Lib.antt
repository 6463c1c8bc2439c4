pub mod NodeLemmas
mod MemoryLemmas
mod PathLemmas
mod IndexLemmas
mod GrowthLemmas
mod ContentLemmas
mod PlacingLemmas
mod FaultLemmas
mod FillingLemmas
mod ItemLemmas
mod RestoringLemmas
mod ArchiveLemmas
pub mod LawLemmas
pub mod WholeLemmas
