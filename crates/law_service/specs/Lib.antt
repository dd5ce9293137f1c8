pub mod Service
pub mod Examples
