pub mod CutLemmas
pub mod CutterLemmas
pub mod CuttingLemmas
pub mod FeedLemmas
