pub mod Trailing
pub mod Numbered
pub mod Settled
pub mod Sole
pub mod MemoryRights
pub mod Causing
