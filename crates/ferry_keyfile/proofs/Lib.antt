pub mod KeyFileLemmas
pub mod TextLemmas
