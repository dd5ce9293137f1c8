pub mod Orders
pub mod Trees
pub mod Processors
pub mod Nexts
pub mod Keeping
