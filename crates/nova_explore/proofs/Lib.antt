pub mod Plain
pub mod Verdicts
pub mod Answering
