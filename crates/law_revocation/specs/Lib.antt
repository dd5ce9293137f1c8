pub mod Sound
pub mod Along
pub mod Taken
pub mod Whole
pub mod Called
pub mod Refused
