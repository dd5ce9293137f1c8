pub mod Fault
pub mod Statements
pub mod Policy
pub mod Labels
