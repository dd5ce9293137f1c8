pub mod Acting
pub mod Changing
pub mod Examples
pub mod Parts
pub mod Refusals
pub mod Size
