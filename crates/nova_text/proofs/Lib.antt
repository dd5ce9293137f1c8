pub mod LineLemmas
pub mod NumberLemmas
pub mod Scans
pub mod SliceLemmas
pub mod TextLemmas
pub mod TokenLemmas
pub mod Below
