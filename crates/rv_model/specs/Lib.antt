pub mod Words
pub mod Registers
pub mod Table
pub mod Codes
pub mod Step
