pub mod Plain
pub mod FirstTurns
pub mod Ran
pub mod Flowing
pub mod Answering
pub mod Loaded
