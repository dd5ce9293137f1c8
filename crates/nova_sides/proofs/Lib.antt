pub mod Queues
pub mod Verdicts
