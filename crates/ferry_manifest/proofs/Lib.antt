pub mod WalkLemmas
pub mod PlaceLemmas
pub mod TagLemmas
pub mod StatedLemmas
pub mod PartsLemmas
pub mod TaggedLemmas
pub mod Manifests
pub mod Records
