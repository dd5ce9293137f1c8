pub mod Blocks
pub mod Fault
pub mod Numbers
pub mod Read
pub mod Text
