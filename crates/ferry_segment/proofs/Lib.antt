mod CrcLemmas
pub mod EntryLemmas
mod FoldingLemmas
pub mod HeadLemmas
pub mod SegmentLemmas
