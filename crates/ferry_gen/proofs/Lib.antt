pub mod FieldLemmas
pub mod ListLemmas
pub mod PutLemmas
pub mod MadeLemmas
pub mod MadeFilesLemmas
