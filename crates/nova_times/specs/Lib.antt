pub mod Entries
pub mod Trees
pub mod Processors
pub mod Kept
