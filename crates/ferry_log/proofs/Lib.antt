pub mod LawLemmas
pub mod PlaceLemmas
pub mod FitsLemmas
pub mod PlacesLemmas
mod HeadLemmas
pub mod LeastLemmas
mod ExtentsLemmas
mod LiveLemmas
mod OpeningLemmas
mod StateLemmas
mod WindowLemmas
