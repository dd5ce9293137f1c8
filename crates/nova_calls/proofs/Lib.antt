pub mod Sound
pub mod Numbered
