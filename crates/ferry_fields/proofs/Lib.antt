pub mod MapLemmas
pub mod FieldLemmas
pub mod OtherLemmas
pub mod PutLemmas
pub mod SizeLemmas
pub mod KeptLemmas
pub mod ApartLemmas
