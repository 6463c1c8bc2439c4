mod EntryLemmas
mod PassLemmas
mod SegmentLemmas
