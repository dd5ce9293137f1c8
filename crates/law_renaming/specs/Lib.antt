pub mod Renamings
pub mod Twins
pub mod Forced
pub mod Verdicts
pub mod Walks
