pub mod EntryLemmas
pub mod Left
