pub mod Flow
pub mod Processors
pub mod Examples
