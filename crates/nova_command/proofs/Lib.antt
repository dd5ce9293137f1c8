pub mod Plain
pub mod LawLemmas
pub mod Parsed
