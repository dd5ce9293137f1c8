pub mod HeaderLemmas
pub mod ReadLemmas
