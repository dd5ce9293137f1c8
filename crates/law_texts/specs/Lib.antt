pub mod Words
pub mod Settings
pub mod Sources
pub mod Rows
pub mod Benches
pub mod Faults
